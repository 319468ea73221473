-- What the crate promises. A reader must believe the definitions: Window, the 64 bytes and what a write makes of them; Host, what a host reads after a
-- list of writes, told by the list alone. Laws has proved facts, and Examples windows that the definitions compute.
pub mod Window
pub mod Host
pub mod Laws
pub mod Examples
