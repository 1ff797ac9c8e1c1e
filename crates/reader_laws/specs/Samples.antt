-- Document 01, "The job text": four texts that between them have two lines or more of every table but road, and the roads that they say, cell by cell. Each is read as its road: proofs/AlongRead, AsideRead, LanesRead, StripsRead.
-- Geometries of all three kinds, lanes on both sides of two sections with marks on them, strips of all four kinds; columns are not all in 01's order, and strips neither.
-- In a text no number comes twice, but for the zeros that admission asks for, so a cell that is kept in another's place makes another road.
use Rattle.std.specs.Prelude.{ℕ, ◌*◌, ◌≡◌, Bool, true, false, List, [], ◌∷◌, take}
use Prim.Native.Char.{code}
use Prim.Native.String.{String}
use Prim.Native.String as text
use Rattle.float_laws.specs.Binary64.{f64, zero64}
use Rattle.refusals.specs.Answer.{value}
use Rattle.records_cubic.specs.declared.cubics.Cubic.{Cubic}
use Rattle.records.specs.declared.points.GeomRec.{GeomRec}
use Rattle.records.specs.declared.points.GeomShape.{GeomShape}
use Rattle.records.specs.declared.points.GeomShape.TheVariants.{Line, Arc, Spiral}
use Rattle.records.specs.declared.points.HeightDef.{HeightDef}
use Rattle.records.specs.declared.points.Mark.{Mark}
use Rattle.records.specs.Layout.{numbers_needed, words_needed, want_stride, wants_needed}
use Rattle.records.specs.Roads.{Road, Section, Lane, Profile, Strip, absent, present, road_of}
use Rattle.reader_calls.specs.Reading.{Outcome, reading_of, verdict_of, words_held, numbers_held, wants_held}

-- ---- a text by its lines, and the records by their digits in it

-- the bytes of a line, then others
abbrev pub before : String → List ℕ → List ℕ
before text.[] bs = bs
before (text.◌∷◌ c s) bs = code c ∷ before s bs

-- "Lines end in one LF"
abbrev pub text_of : List String → List ℕ
text_of [] = []
text_of (s ∷ ss) = before s (10 ∷ text_of ss)

abbrev pub cubic : ℕ → ℕ → ℕ → ℕ → ℕ → Cubic
cubic start a b c d = record { start = f64 start; a = f64 a; b = f64 b; c = f64 c; d = f64 d }

abbrev pub geom : ℕ → ℕ → ℕ → ℕ → ℕ → GeomShape → GeomRec
geom s x y hdg length shape = record { s = f64 s; x = f64 x; y = f64 y; hdg = f64 hdg; length = f64 length; shape = shape }

abbrev pub arc : ℕ → GeomShape
arc k = Arc (f64 k)

abbrev pub spiral : ℕ → ℕ → GeomShape
spiral k0 k1 = Spiral (f64 k0) (f64 k1)

abbrev pub height : ℕ → ℕ → ℕ → HeightDef
height start inner outer = record { s_offset = f64 start; inner = f64 inner; outer = f64 outer }

abbrev pub lane : Bool → Bool → List Cubic → List HeightDef → Lane
lane border level extents heights = record { border = border; level = level; extents = extents; heights = heights }

-- the place of its lane in its section, its kind, its span
abbrev pub mark : ℕ → ℕ → ℕ → ℕ → Mark
mark lane kind start end = record { lane = lane; kind = kind; start = f64 start; end = f64 end }

abbrev pub section : ℕ → List Lane → List Lane → List Mark → Section
section start left right marks = record { start = f64 start; left = left; right = right; marks = marks }

abbrev pub profile : ℕ → List Cubic → Profile
profile s shapes = record { s = f64 s; shapes = shapes }

-- relative or not, the width's cubics, those of the terms 0 to 3
abbrev pub strip : Bool → List Cubic → List (List Cubic) → Strip
strip relative width terms = present (record { relative = relative; width = width; terms = terms })

-- a text read into slices as long as the layout needs
abbrev pub read_of : List String → Outcome
read_of lines = reading_of (text_of lines) words_needed numbers_needed wants_needed

-- a text that is read is accepted, with as many wants; the words and the numbers stand for the road, and the wants are held first
pub record Reads (lines : List String) (road : Road) (wants : List ℕ) (n : ℕ) : Type 0 where
  pub accepted : verdict_of (read_of lines) ≡ value n
  pub stands : road_of (words_held words_needed (read_of lines)) (numbers_held numbers_needed (read_of lines)) ≡ road
  pub held : take (want_stride * n) (wants_held wants_needed (read_of lines)) ≡ wants

-- ---- along the road: geom, elev, bank, want

abbrev pub along_lines : List String
along_lines =
    "road length" ∷
    "4024000000000000" ∷
    "" ∷
    "geom kind k1 s y x length k0 hdg" ∷
    "line 0000000000000000 0000000000000000 c049500000000000 4059300000000000 4008240000000000 0000000000000000 3f8c000000000000" ∷
    "arc 0000000000000000 4008000000000000 4049d00000000000 4059b00000000000 4008440000000000 3f73000000000000 bf9e000000000000" ∷
    "spiral bf8f000000000000 4018000000000000 404a700000000000 c05a500000000000 3ff0d80000000000 3f8d000000000000 3fa9000000000000" ∷
    "" ∷
    "elev start a b c d" ∷
    "3fe0000000000000 3f80800000000000 bf71800000000000 3f62800000000000 3f43800000000000" ∷
    "4012000000000000 3f84800000000000 bf75800000000000 3f66800000000000 3f47800000000000" ∷
    "" ∷
    "bank d c b a start" ∷
    "3f2b800000000000 3f4a800000000000 bf69800000000000 3f78800000000000 3fe4000000000000" ∷
    "3f2f800000000000 3f4e800000000000 bf6d800000000000 3f7c800000000000 4012800000000000" ∷
    "" ∷
    "section start" ∷
    "0000000000000000" ∷
    "" ∷
    "want t s" ∷
    "4000800000000000 3ff1000000000000" ∷
    "c010400000000000 4008800000000000" ∷
    "" ∷
    []

abbrev pub along_road : Road
along_road =
    record {
      length = f64 0x4024000000000000;
      geoms =
          geom 0x0000000000000000 0x4059300000000000 0xc049500000000000 0x3f8c000000000000 0x4008240000000000 Line ∷
          geom 0x4008000000000000 0x4059b00000000000 0x4049d00000000000 0xbf9e000000000000 0x4008440000000000 (arc 0x3f73000000000000) ∷
          geom 0x4018000000000000 0xc05a500000000000 0x404a700000000000 0x3fa9000000000000 0x3ff0d80000000000 (spiral 0x3f8d000000000000 0xbf8f000000000000) ∷
          [];
      unused = ((zero64 ∷ zero64 ∷ []) ∷ (zero64 ∷ []) ∷ [] ∷ []);
      elevations =
          cubic 0x3fe0000000000000 0x3f80800000000000 0xbf71800000000000 0x3f62800000000000 0x3f43800000000000 ∷
          cubic 0x4012000000000000 0x3f84800000000000 0xbf75800000000000 0x3f66800000000000 0x3f47800000000000 ∷
          [];
      superelevations =
          cubic 0x3fe4000000000000 0x3f78800000000000 0xbf69800000000000 0x3f4a800000000000 0x3f2b800000000000 ∷
          cubic 0x4012800000000000 0x3f7c800000000000 0xbf6d800000000000 0x3f4e800000000000 0x3f2f800000000000 ∷
          [];
      offsets = [];
      tshifts = [];
      sections =
          section 0x0000000000000000 [] [] [] ∷
          [];
      profiles = [];
      strips = (absent ∷ absent ∷ absent ∷ absent ∷ []);
    }

abbrev pub along_wants : List ℕ
along_wants = 0x3ff1000000000000 ∷ 0x4000800000000000 ∷ 0x4008800000000000 ∷ 0xc010400000000000 ∷ []

-- ---- aside of it: offset, tshift, profile, shape

abbrev pub aside_lines : List String
aside_lines =
    "road length" ∷
    "4024000000000000" ∷
    "" ∷
    "geom s x y hdg length kind k0 k1" ∷
    "0000000000000000 405d300000000000 c04d500000000000 3fc1c00000000000 4009240000000000 line 0000000000000000 0000000000000000" ∷
    "" ∷
    "offset b start a d c" ∷
    "bf44000000000000 3fe8000000000000 3f48000000000000 3f22000000000000 3f3c000000000000" ∷
    "bf5a000000000000 4013000000000000 3f66000000000000 3f31000000000000 3f4e000000000000" ∷
    "" ∷
    "tshift start a b c d" ∷
    "3fec000000000000 3f73000000000000 bf65000000000000 3f57000000000000 3f39000000000000" ∷
    "4013800000000000 3f7b000000000000 bf6d000000000000 3f5f000000000000 3f40800000000000" ∷
    "" ∷
    "section start" ∷
    "0000000000000000" ∷
    "" ∷
    "profile s" ∷
    "3ff0000000000000" ∷
    "401c000000000000" ∷
    "" ∷
    "shape t a b c d profile" ∷
    "c044000000000000 3f81800000000000 bf02800000000000 3e83800000000000 3e04800000000000 0" ∷
    "4034000000000000 3f85800000000000 bf06800000000000 3e87800000000000 3e08800000000000 0" ∷
    "c03e000000000000 3f89800000000000 bf0a800000000000 3e8b800000000000 3e0c800000000000 1" ∷
    "403e000000000000 3f8d800000000000 bf0e800000000000 3e8f800000000000 3e10400000000000 1" ∷
    "" ∷
    []

abbrev pub aside_road : Road
aside_road =
    record {
      length = f64 0x4024000000000000;
      geoms =
          geom 0x0000000000000000 0x405d300000000000 0xc04d500000000000 0x3fc1c00000000000 0x4009240000000000 Line ∷
          [];
      unused = ((zero64 ∷ zero64 ∷ []) ∷ []);
      elevations = [];
      superelevations = [];
      offsets =
          cubic 0x3fe8000000000000 0x3f48000000000000 0xbf44000000000000 0x3f3c000000000000 0x3f22000000000000 ∷
          cubic 0x4013000000000000 0x3f66000000000000 0xbf5a000000000000 0x3f4e000000000000 0x3f31000000000000 ∷
          [];
      tshifts =
          cubic 0x3fec000000000000 0x3f73000000000000 0xbf65000000000000 0x3f57000000000000 0x3f39000000000000 ∷
          cubic 0x4013800000000000 0x3f7b000000000000 0xbf6d000000000000 0x3f5f000000000000 0x3f40800000000000 ∷
          [];
      sections =
          section 0x0000000000000000 [] [] [] ∷
          [];
      profiles =
          profile 0x3ff0000000000000 (cubic 0xc044000000000000 0x3f81800000000000 0xbf02800000000000 0x3e83800000000000 0x3e04800000000000 ∷ cubic 0x4034000000000000 0x3f85800000000000 0xbf06800000000000 0x3e87800000000000 0x3e08800000000000 ∷ []) ∷
          profile 0x401c000000000000 (cubic 0xc03e000000000000 0x3f89800000000000 0xbf0a800000000000 0x3e8b800000000000 0x3e0c800000000000 ∷ cubic 0x403e000000000000 0x3f8d800000000000 0xbf0e800000000000 0x3e8f800000000000 0x3e10400000000000 ∷ []) ∷
          [];
      strips = (absent ∷ absent ∷ absent ∷ absent ∷ []);
    }

abbrev pub aside_wants : List ℕ
aside_wants = []

-- ---- section, lane, extent, height, mark

abbrev pub lanes_lines : List String
lanes_lines =
    "road length" ∷
    "4024000000000000" ∷
    "" ∷
    "geom s x y hdg length kind k0 k1" ∷
    "0000000000000000 405cb00000000000 c04cd00000000000 3fbf800000000000 4009040000000000 line 0000000000000000 0000000000000000" ∷
    "" ∷
    "section start" ∷
    "0000000000000000" ∷
    "4014000000000000" ∷
    "" ∷
    "lane id section level extent" ∷
    "1 0 1 width" ∷
    "2 0 0 border" ∷
    "-1 0 1 border" ∷
    "-2 0 0 width" ∷
    "1 1 0 border" ∷
    "-1 1 1 width" ∷
    "" ∷
    "extent section id start a b c d" ∷
    "0 1 3fd0000000000000 3f48000000000000 bf44000000000000 3f3c000000000000 3f22000000000000" ∷
    "0 1 3ff4000000000000 3f66000000000000 bf5a000000000000 3f4e000000000000 3f31000000000000" ∷
    "0 -1 3fd8000000000000 3f73000000000000 bf65000000000000 3f57000000000000 3f39000000000000" ∷
    "1 1 3fdc000000000000 3f7b000000000000 bf6d000000000000 3f5f000000000000 3f40800000000000" ∷
    "1 -1 3ff8000000000000 3f81800000000000 bf72800000000000 3f63800000000000 3f44800000000000" ∷
    "" ∷
    "height outer section id start inner" ∷
    "bf96800000000000 0 1 3fc0000000000000 3f95800000000000" ∷
    "3f98800000000000 0 -2 4002000000000000 3f97800000000000" ∷
    "3f9a800000000000 0 -2 4003000000000000 3f99800000000000" ∷
    "3f9c800000000000 1 -1 4004000000000000 bf9b800000000000" ∷
    "" ∷
    "mark kind end id start section" ∷
    "7 3ff0800000000000 1 3fb8000000000000 0" ∷
    "255 4001000000000000 -2 3fe2000000000000 0" ∷
    "12 400a000000000000 -1 3ff9000000000000 1" ∷
    "3 3fee000000000000 1 3fe6000000000000 1" ∷
    "" ∷
    []

abbrev pub lanes_road : Road
lanes_road =
    record {
      length = f64 0x4024000000000000;
      geoms =
          geom 0x0000000000000000 0x405cb00000000000 0xc04cd00000000000 0x3fbf800000000000 0x4009040000000000 Line ∷
          [];
      unused = ((zero64 ∷ zero64 ∷ []) ∷ []);
      elevations = [];
      superelevations = [];
      offsets = [];
      tshifts = [];
      sections =
          section 0x0000000000000000 (
          lane false true (cubic 0x3fd0000000000000 0x3f48000000000000 0xbf44000000000000 0x3f3c000000000000 0x3f22000000000000 ∷ cubic 0x3ff4000000000000 0x3f66000000000000 0xbf5a000000000000 0x3f4e000000000000 0x3f31000000000000 ∷ []) (height 0x3fc0000000000000 0x3f95800000000000 0xbf96800000000000 ∷ []) ∷
          lane true false [] [] ∷
          []) (
          lane true true (cubic 0x3fd8000000000000 0x3f73000000000000 0xbf65000000000000 0x3f57000000000000 0x3f39000000000000 ∷ []) [] ∷
          lane false false [] (height 0x4002000000000000 0x3f97800000000000 0x3f98800000000000 ∷ height 0x4003000000000000 0x3f99800000000000 0x3f9a800000000000 ∷ []) ∷
          []) (
          mark 0 7 0x3fb8000000000000 0x3ff0800000000000 ∷
          mark 3 255 0x3fe2000000000000 0x4001000000000000 ∷
          []) ∷
          section 0x4014000000000000 (
          lane true false (cubic 0x3fdc000000000000 0x3f7b000000000000 0xbf6d000000000000 0x3f5f000000000000 0x3f40800000000000 ∷ []) [] ∷
          []) (
          lane false true (cubic 0x3ff8000000000000 0x3f81800000000000 0xbf72800000000000 0x3f63800000000000 0x3f44800000000000 ∷ []) (height 0x4004000000000000 0xbf9b800000000000 0x3f9c800000000000 ∷ []) ∷
          []) (
          mark 1 12 0x3ff9000000000000 0x400a000000000000 ∷
          mark 0 3 0x3fe6000000000000 0x3fee000000000000 ∷
          []) ∷
          [];
      profiles = [];
      strips = (absent ∷ absent ∷ absent ∷ absent ∷ []);
    }

abbrev pub lanes_wants : List ℕ
lanes_wants = []

-- ---- strip, cubic: both on the right are relative, so place and relative in each other's column make another road

abbrev pub strips_lines : List String
strips_lines =
    "road length" ∷
    "4024000000000000" ∷
    "" ∷
    "geom s x y hdg length kind k0 k1" ∷
    "0000000000000000 405d300000000000 c04d500000000000 3fc1c00000000000 4009240000000000 line 0000000000000000 0000000000000000" ∷
    "" ∷
    "section start" ∷
    "0000000000000000" ∷
    "" ∷
    "strip side place relative" ∷
    "right 1 1" ∷
    "left 0 1" ∷
    "left 1 0" ∷
    "right 0 1" ∷
    "" ∷
    "cubic side place term start a b c d" ∷
    "right 1 width 3ff2000000000000 3f28000000000000 bf24000000000000 3f1c000000000000 3f12000000000000" ∷
    "right 1 0 4007000000000000 3f46000000000000 bf3a000000000000 3f2e000000000000 3f21000000000000" ∷
    "right 1 3 4014800000000000 3df3000000000000 bde5000000000000 3dd7000000000000 3dc9000000000000" ∷
    "left 0 width 3ff6000000000000 3f5b000000000000 bf4d000000000000 3f3f000000000000 3f30800000000000" ∷
    "left 0 2 400b000000000000 3e81800000000000 be72800000000000 3e63800000000000 3e54800000000000" ∷
    "left 0 2 4015000000000000 3e85800000000000 be76800000000000 3e67800000000000 3e58800000000000" ∷
    "left 1 0 4011800000000000 3f69800000000000 bf5a800000000000 3f4b800000000000 3f3c800000000000" ∷
    "right 0 1 401d800000000000 3efd800000000000 beee800000000000 3edf800000000000 3ed0400000000000" ∷
    "" ∷
    []

abbrev pub strips_road : Road
strips_road =
    record {
      length = f64 0x4024000000000000;
      geoms =
          geom 0x0000000000000000 0x405d300000000000 0xc04d500000000000 0x3fc1c00000000000 0x4009240000000000 Line ∷
          [];
      unused = ((zero64 ∷ zero64 ∷ []) ∷ []);
      elevations = [];
      superelevations = [];
      offsets = [];
      tshifts = [];
      sections =
          section 0x0000000000000000 [] [] [] ∷
          [];
      profiles = [];
      strips =
          strip true (cubic 0x3ff6000000000000 0x3f5b000000000000 0xbf4d000000000000 0x3f3f000000000000 0x3f30800000000000 ∷ []) ([] ∷ [] ∷ (cubic 0x400b000000000000 0x3e81800000000000 0xbe72800000000000 0x3e63800000000000 0x3e54800000000000 ∷ cubic 0x4015000000000000 0x3e85800000000000 0xbe76800000000000 0x3e67800000000000 0x3e58800000000000 ∷ []) ∷ [] ∷ []) ∷
          strip false [] ((cubic 0x4011800000000000 0x3f69800000000000 0xbf5a800000000000 0x3f4b800000000000 0x3f3c800000000000 ∷ []) ∷ [] ∷ [] ∷ [] ∷ []) ∷
          strip true [] ([] ∷ (cubic 0x401d800000000000 0x3efd800000000000 0xbeee800000000000 0x3edf800000000000 0x3ed0400000000000 ∷ []) ∷ [] ∷ [] ∷ []) ∷
          strip true (cubic 0x3ff2000000000000 0x3f28000000000000 0xbf24000000000000 0x3f1c000000000000 0x3f12000000000000 ∷ []) ((cubic 0x4007000000000000 0x3f46000000000000 0xbf3a000000000000 0x3f2e000000000000 0x3f21000000000000 ∷ []) ∷ [] ∷ [] ∷ (cubic 0x4014800000000000 0x3df3000000000000 0xbde5000000000000 0x3dd7000000000000 0x3dc9000000000000 ∷ []) ∷ []) ∷
          [];
    }

abbrev pub strips_wants : List ℕ
strips_wants = []
