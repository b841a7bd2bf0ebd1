mod QuickSweep
mod Computed
mod FullGrid
mod Quiet
mod Bench
