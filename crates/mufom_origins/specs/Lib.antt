pub mod Origins
pub mod Places
pub mod Words
