-- Frames one after the other, and the calls that read them. Definitions only.
use Rattle.std.specs.Prelude.{ℕ, zero, suc, ◌+◌, Bool, true, false, not, cond, ◌&&◌, List, [], ◌∷◌, ◌++◌, ltb, length, drop}
use Rattle.frames.specs.Frame.{Frame, Fits, flag, between}
use Rattle.frames.specs.Reading.{Answer, accepted, refused, end, Outcome, begins, read_bits}

-- ---- written

unfoldable pub flags : ℕ → List Bool
flags zero = []
flags (suc n) = flag ++ flags n

-- a frame, and how many flags stand in front of its opening flag
pub record Spaced : Type 0 where
  pub more : ℕ
  pub frame : Frame

-- frames one after the other. The flag behind a frame is its closing flag; where no more stand there, it is the next one's opening flag too. So
-- many more flags stand at the end
unfoldable pub stream_of : List Spaced → ℕ → List Bool
stream_of [] tail = flag ++ flags tail
stream_of (x ∷ xs) tail = flags x.more ++ (flag ++ (between x.frame ++ stream_of xs tail))

abbrev pub frames_of : List Spaced → List Frame
frames_of [] = []
frames_of (x ∷ xs) = x.frame ∷ frames_of xs

abbrev pub AllFit : List Spaced → Type 0
AllFit [] = Unit {0}
AllFit (x ∷ xs) = Fits x.frame × AllFit xs

-- ---- read

-- a call answers a later place to go on from: not at the end, nor where the place is given back
abbrev pub is_end : Answer → Bool
is_end (accepted f) = false
is_end (refused q) = false
is_end end = true

unfoldable pub goes_on : Outcome → Bool
goes_on o = not (is_end o.answer) && ltb 0 o.on

-- the answers of at most k calls, each from the place that the one before it answered
unfoldable pub calls : ℕ → List Bool → List Answer
calls zero s = []
calls (suc k) s = let o = read_bits false s in o.answer ∷ cond (goes_on o) (calls k (drop o.on s)) []

-- a stream read from its start: as many calls as it has bits, and one, which CallsEnough (Claims.antt) shows to be enough
abbrev pub answers : List Bool → List Answer
answers s = calls (suc (length s)) s

-- how many flags there are: the places at which one begins
unfoldable pub flags_in : List Bool → ℕ
flags_in [] = 0
flags_in (b ∷ s) = cond (begins flag (b ∷ s)) 1 0 + flags_in s
