pub mod CheckpointPieces
