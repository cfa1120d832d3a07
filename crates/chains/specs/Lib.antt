-- What a reader of the chains believes: counting, and what it is for cells to link a sequence.
pub mod Count
pub mod Chain
