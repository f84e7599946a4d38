pub mod FuncViews
