pub mod LinesHeld
