pub mod AgreeingMarks
pub mod ColumnsAndLoads
pub mod Standing
pub mod FlowInstance
pub mod PathInstance
pub mod Solutions
pub mod FlowInputs
pub mod CertifyCases
