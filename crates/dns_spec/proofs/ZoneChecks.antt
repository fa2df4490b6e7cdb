-- The faults of a zone, and what holds for a zone without a fault.
pub mod FaultLaws
pub mod FaultOrder
pub mod PassedChecks
pub mod LastingFaults
