mod Added
mod Sizes
