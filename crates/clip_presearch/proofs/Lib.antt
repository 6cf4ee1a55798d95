pub mod ArticleKeys
