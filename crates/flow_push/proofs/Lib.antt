pub mod CodedArcs
