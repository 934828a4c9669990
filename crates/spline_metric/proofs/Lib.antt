pub mod MetricLaws
