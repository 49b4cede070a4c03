pub mod SpanSets
