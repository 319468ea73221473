-- What the contracts of the C interface cite, and a reader must believe: ToC, what a call hands to C. The functions of the layers promise the
-- definitions of their own crates. Laws has proved facts.
pub mod ToC
pub mod Laws
