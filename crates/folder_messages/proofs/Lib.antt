mod Holding
mod Lining
