pub mod Forms
pub mod Guards
pub mod Lines
pub mod Origins
