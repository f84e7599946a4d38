pub mod ElemViews
