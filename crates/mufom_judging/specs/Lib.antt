pub mod Prefixes
pub mod Faults
pub mod Judging
pub mod Limited
pub mod Stated
pub mod Laws
pub mod RecordFields
