pub mod Listed
pub mod Tables
pub mod Views
pub mod Stacked
pub mod Systems
