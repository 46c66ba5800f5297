pub mod RespelledFile
pub mod RespelledSource
pub mod Sites
pub mod Standing
