pub mod NoUsers
pub mod StoreErrors
