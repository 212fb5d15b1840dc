-- What it is to be a finite union of zones: a definition alone.
pub mod Drawn
