use Rattle.std.proofs.Common.{◌≡◌, ◌≤◌, [], length}
use Rattle.filled.specs.Items.{items_of}
use Rattle.text.specs.Lines.{lines}
use Rattle.table.specs.Models.{table_of}
use Rattle.listing.specs.Listings.{job_lines}
use Rattle.listing.proofs.reading.read_jobs.Given as goal

abbrev pub invariant-loop-line : goal.invariant-loop-line
invariant-loop-line l =
    (length (items_of l.numbers) ≤ 64)
    × (job_lines (table_of l.table) (items_of l.numbers) l.line-iterator.number (lines l.line-iterator.rest) ≡ job_lines (table_of l.table) [] l.fn.left.number (lines l.fn.left.rest))
