pub mod LogPieces
