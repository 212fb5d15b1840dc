-- `Files` goes from the buffers to the files.
pub mod Files
