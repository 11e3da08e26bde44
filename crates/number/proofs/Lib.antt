-- What the proofs of several functions use.
mod Signed
mod Laws
