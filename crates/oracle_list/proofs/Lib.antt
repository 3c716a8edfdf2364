-- The laws that the proofs share.
mod Laws
