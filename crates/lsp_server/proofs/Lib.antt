mod Asking
mod Serving
mod Taking
