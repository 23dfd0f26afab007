mod Joined
mod Reserving
