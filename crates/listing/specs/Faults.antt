-- The number, line and field of each fault of a list.
use Rattle.std.specs.Prelude.{ℕ}
use Rattle.text.specs.Faults.{refusal_of}
use Rattle.listing.specs.declared.fault.ListingFault.{ListingFault}
use Rattle.listing.specs.declared.fault.ListingFault.TheVariants.{Text, WrongTag, WrongFields, OutOfOrder, Missing, TooManyJobs}

abbrev pub refusal_of_listing : ListingFault → ℕ × ℕ × ℕ
refusal_of_listing (Text e) = refusal_of e
refusal_of_listing (WrongTag at) = (4, at, 1)
refusal_of_listing (WrongFields at) = (5, at, 1)
refusal_of_listing (OutOfOrder at) = (12, at, 1)
refusal_of_listing (Missing at) = (12, at, 0)
refusal_of_listing (TooManyJobs at) = (28, at, 1)
