pub mod ConsolidatePieces
