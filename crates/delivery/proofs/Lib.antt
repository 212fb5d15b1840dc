-- `Buffers` has words written in front of a buffer, `Working` what the steps of `work_out` come to.
pub mod Buffers
pub mod Working
