pub mod WriteLine
