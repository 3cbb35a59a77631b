-- Proofs about pieces, settings and answers.
mod AddedPieces
mod Answers
mod FindingsFit
mod Meanings
mod PermutedPieces
mod PiecesMean
mod RefusedPieces
mod RuleNames
mod ShownOrRebuilt
