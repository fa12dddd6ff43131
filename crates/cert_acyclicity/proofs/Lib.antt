pub mod AcyclicityAnswer
