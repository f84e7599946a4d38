pub mod MemoryViews
