-- A new text as one list that says everything of it, and what pieces make of it.
pub mod PiecesAtGap
pub mod FullText
pub mod GapOrder
pub mod FilteredText
pub mod NormalForm
pub mod PiecesAgain
