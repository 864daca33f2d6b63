-- Document 01's section "Reassembly": one step. Then demand 3, over whole runs of it: what a run hands up, the traffic on the cable, and the claim.
pub mod Step
pub mod Run
pub mod Traffic
pub mod Statements
