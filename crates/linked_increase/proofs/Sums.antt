-- How great the sums over the rows are.
use Rattle.std.proofs.Common.{◌≡◌, ℕ, ◌*◌, ◌/◌, ◌<◌, ◌≤◌, length, List, Some, arith}
use Rattle.std.proofs.lemmas.List.Elements.{All-weaker}
use Rattle.std.proofs.lemmas.List.Sums.{sum_by-le, get_or-le-sum_by}
use Rattle.std.proofs.Math.Nat.{mul-le-mul, mul-div_cancel_left, div-le_self}
use Rattle.std.specs.Prelude.{All, Contains, sum_by}
use Rattle.linked_increase.specs.declared.rows.Row.{Row}
use Rattle.linked_increase.specs.Paths.{IsInRange, total, leader}
use Rattle.linked_increase.specs.Scaled.{scaled_sum}
use Rattle.linked_increase.proofs.Leading.{leader_leads, leader_in_range}

pub total_le : (rows : List Row) → All IsInRange rows → total rows ≤ length rows * 1048576
total_le rows ranges =
    sum_by-le (λ row. row.window) 1048576 rows
    (All-weaker IsInRange (λ row. row.window ≤ 1048576) (λ row r. r.window) rows ranges)

term_le : (m row : Row) → IsInRange m → IsInRange row → m.rtt * row.window / row.rtt ≤ 60000 * 1048576
term_le m row rm r =
    let product : m.rtt * row.window ≤ 60000 * 1048576 = mul-le-mul rm.rtt r.window in
    omega (arith, product, div-le_self (m.rtt * row.window) row.rtt)

pub scaled_sum_le : (m : Row) (rows : List Row) → IsInRange m → All IsInRange rows
    → scaled_sum m rows ≤ length rows * (60000 * 1048576)
scaled_sum_le m rows rm ranges =
    sum_by-le (λ row. m.rtt * row.window / row.rtt) (60000 * 1048576) rows
    (All-weaker IsInRange (λ row. m.rtt * row.window / row.rtt ≤ 60000 * 1048576) (λ row r. term_le m row rm r) rows ranges)

term-le-sum_by : (f : Row → ℕ) (rows : List Row) (m : Row) → Contains rows m → f m ≤ sum_by f rows
term-le-sum_by f rows m (k, below, is) = rw is at (get_or-le-sum_by f rows k m below)

-- the total has each window in it
pub window-le-total : (rows : List Row) (row : Row) → Contains rows row → row.window ≤ total rows
window-le-total rows row among = term-le-sum_by (λ row. row.window) rows row among

-- the term of the leading row itself is its window
pub window-le-scaled_sum : (m : Row) (rows : List Row) → IsInRange m → Contains rows m → m.window ≤ scaled_sum m rows
window-le-scaled_sum m rows r among =
    let own : m.rtt * m.window / m.rtt ≡ m.window = mul-div_cancel_left m.window r.some_rtt in
    rw own at (term-le-sum_by (λ row. m.rtt * row.window / row.rtt) rows m among)

-- the sum by the row that leads is not 0
pub scaled_sum_some : (m : Row) (rows : List Row) → All IsInRange rows → leader rows ≡ Some m → 0 < scaled_sum m rows
scaled_sum_some m rows ranges leads =
    let r = leader_in_range rows m ranges leads in
    omega (arith, window-le-scaled_sum m rows r (leader_leads rows m ranges leads).among, r.some_window)

pub total_some : (m : Row) (rows : List Row) → All IsInRange rows → leader rows ≡ Some m → 0 < total rows
total_some m rows ranges leads =
    let r = leader_in_range rows m ranges leads in
    omega (arith, window-le-total rows m (leader_leads rows m ranges leads).among, r.some_window)
