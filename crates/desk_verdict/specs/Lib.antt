-- What the desk decides: where a sequence stands after stretches.
pub mod Said
pub mod Standing
pub mod First
