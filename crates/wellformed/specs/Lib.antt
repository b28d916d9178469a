-- What the contracts of questions 12 to 15 cite, beside the definitions of document 01's questions (`WellFormed` of policy).
pub mod Rows
pub mod Faults
