-- The linked increase in integers, with alpha scaled by 512 and the sum in terms of the row m that leads (RFC 6356,
-- section 4.1).
use Rattle.std.specs.Prelude.{ℕ, ◌*◌, ◌/◌, min, List, sum_by}
use Rattle.std.specs.Option.{option_map_or}
use Rattle.linked_increase.specs.declared.rows.Row.{Row}
use Rattle.linked_increase.specs.Paths.{total, leader}

-- SUM (rtt_m * cwnd_i / rtt_i), each term rounded down
abbrev pub scaled_sum : Row → List Row → ℕ
scaled_sum m rows = sum_by (λ row. m.rtt * row.window / row.rtt) rows

-- alpha_scale * cwnd_total * cwnd_m / SUM (rtt_m * cwnd_i / rtt_i)^2
abbrev pub alpha_by : Row → List Row → ℕ
alpha_by m rows = 512 * total rows * m.window / (scaled_sum m rows * scaled_sum m rows)

-- alpha by the row that leads
unfoldable pub alpha_of : List Row → ℕ
alpha_of rows = option_map_or (λ m. alpha_by m rows) (leader rows) 0

-- min (alpha * bytes_acked * MSS_i / (cwnd_total * alpha_scale), bytes_acked * MSS_i / cwnd_i)
unfoldable pub growth_of : Row → List Row → ℕ → ℕ → ℕ
growth_of row rows mss acked =
    min (alpha_of rows * (acked * mss) / (total rows * 512)) (acked * mss / row.window)
