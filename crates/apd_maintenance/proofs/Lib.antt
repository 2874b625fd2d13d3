mod Making
mod Printing
