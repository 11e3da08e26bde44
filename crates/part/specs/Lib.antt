-- Words of contracts.
pub mod PieceWords
