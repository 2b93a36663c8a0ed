mod Answering
mod Lengths
