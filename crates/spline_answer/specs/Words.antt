-- DEFINITIONS. An emission: the words that crates above say it in, each where it is declared. Assumes nothing.
pub use Rattle.spline_channels.specs.Channels.{Spline}
pub use Rattle.spline_places.specs.Groups.{is_bspline}
unfoldable pub use Rattle.spline_channels.specs.Channels.{point_rows, channels_from, channels, place_of}
unfoldable pub use Rattle.spline_metric.specs.Metric.{metric_of}
unfoldable pub use Rattle.spline_points.specs.Points.{first_cell, start_point, next_point, points_from, weight_of}
unfoldable pub use Rattle.spline_answer.specs.Runs.{runs_of}
unfoldable pub use Rattle.spline_places.specs.Groups.{sample_cell, own_cell, is_marked, point_group, held_group}
unfoldable pub use Rattle.spline_answer.specs.Emission.{spline_groups}
