-- The lister's name of a report, and the number by which a C program knows it. The document gives no numbers: these are ours, above every
-- refusal's.
-- Definitions only.
use Rattle.std.specs.Prelude.{ℕ, ◌≡◌, ◌≢◌, List, ◌++◌, codes, Result, MatchResult}
use Rattle.std.specs.Fmt.{decimal}
use Rattle.reports.specs.declared.Height.{Height}
use Rattle.reports.specs.declared.Height.TheVariants as H
use Rattle.reports.specs.declared.Report.{Report}
use Rattle.reports.specs.declared.Report.TheVariants as R
use Rattle.reports.specs.declared.kinds.Kind.{Kind}
use Rattle.reports.specs.declared.kinds.Kind.TheVariants as K
use Rattle.reports.specs.declared.kinds.UnknownKind.{UnknownKind}

-- one of four kinds, by what stands in for the height
abbrev pub kind_by : Height → Kind → Kind → Kind → Kind → Kind
kind_by (H.Altitude z) plain with_cd with_mtd with_rdas = plain
kind_by (H.Carried n) plain with_cd with_mtd with_rdas = plain
kind_by (H.Cd m n) plain with_cd with_mtd with_rdas = with_cd
kind_by (H.Mtd m n) plain with_cd with_mtd with_rdas = with_mtd
kind_by (H.Rdas m n) plain with_cd with_mtd with_rdas = with_rdas

-- substitution has a name of its own
abbrev pub dabs_kind : Height → Kind
dabs_kind h = kind_by h K.Dabs K.DabsCd K.DabsMtd K.DabsRdas

abbrev pub atcrbs_kind : Height → Kind
atcrbs_kind h = kind_by h K.Atcrbs K.AtcrbsCd K.AtcrbsMtd K.AtcrbsRdas

abbrev pub kind_of : Report → Kind
kind_of (R.Search s) = K.Search
kind_of (R.Strobe s) = K.Strobe
kind_of (R.Map m) = K.Map
kind_of (R.Status s) = K.Status
kind_of (R.Rtqc s) = K.Rtqc
kind_of (R.Dabs d) = dabs_kind d.height
kind_of (R.Atcrbs a) = atcrbs_kind a.height
kind_of (R.Mtd m) = K.Mtd
kind_of (R.Rdas r) = K.Rdas

abbrev pub kind_number : Kind → ℕ
kind_number K.Search = 101
kind_number K.Strobe = 102
kind_number K.Map = 103
kind_number K.Status = 104
kind_number K.Rtqc = 105
kind_number K.Dabs = 106
kind_number K.DabsCd = 107
kind_number K.DabsMtd = 108
kind_number K.DabsRdas = 109
kind_number K.Atcrbs = 110
kind_number K.AtcrbsCd = 111
kind_number K.AtcrbsMtd = 112
kind_number K.AtcrbsRdas = 113
kind_number K.Mtd = 114
kind_number K.Rdas = 115

-- the kind that has the number; or no kind has it
abbrev pub Numbered : ℕ → Result Kind UnknownKind → Type 0
Numbered number r = MatchResult r (λ kind. kind_number kind ≡ number) (λ e. (e.0 ≡ number) × ((kind : Kind) → kind_number kind ≢ number))

-- what each kind is called in a listing; with substitution, by what stands in for the height too
abbrev pub name_of : Kind → List ℕ
name_of K.Search = codes "SEARCH"
name_of K.Strobe = codes "STROBE"
name_of K.Map = codes "MAP"
name_of K.Status = codes "STATUS"
name_of K.Rtqc = codes "RTQC"
name_of K.Dabs = codes "DABS"
name_of K.DabsCd = codes "DABS-CD"
name_of K.DabsMtd = codes "DABS-MTD"
name_of K.DabsRdas = codes "DABS-RDAS"
name_of K.Atcrbs = codes "ATCRBS"
name_of K.AtcrbsCd = codes "ATCRBS-CD"
name_of K.AtcrbsMtd = codes "ATCRBS-MTD"
name_of K.AtcrbsRdas = codes "ATCRBS-RDAS"
name_of K.Mtd = codes "MTD"
name_of K.Rdas = codes "RDAS"

-- what is said of a number that no kind has
abbrev pub no_kind : UnknownKind → List ℕ
no_kind e = codes "no kind of report has the number " ++ decimal e.0
