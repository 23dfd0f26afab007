pub mod Exclusion
pub mod Beginnings
pub mod Holding
pub mod Machines
pub mod NoTable
