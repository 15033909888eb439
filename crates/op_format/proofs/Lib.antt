pub mod FormatPieces
