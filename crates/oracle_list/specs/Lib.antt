-- What the contracts cite.
pub mod Changes
