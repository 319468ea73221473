-- What a ladder promises. A reader must believe the definitions: Ladder; Replies, what the code's enum stands for; Demand, what demand 3 compares of a
-- place. Internal has terms of the inner functions' contracts, Laws facts about the definitions, each proved, and Examples ladders that they compute.
pub mod Ladder
pub mod Replies
pub mod Demand
pub mod Internal
pub mod Laws
pub mod Examples
