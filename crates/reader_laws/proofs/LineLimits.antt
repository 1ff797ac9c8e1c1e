-- How many lines each table has at most, by computation.
use mathlib.Core.Path.{◌≡◌, refl}
use Rattle.reader_schema.specs.Schema.{limits, limit_of}

pub record LineLimits : Type 0 where
  pub geoms : limit_of 1 ≡ 64
  pub sections : limit_of 6 ≡ 16
  pub lanes : limit_of 7 ≡ 192
  pub extents : limit_of 8 ≡ 512
  pub heights : limit_of 9 ≡ 512
  pub profiles : limit_of 10 ≡ 16
  pub shapes : limit_of 11 ≡ 256
  pub strips : limit_of 12 ≡ 4
  pub cubics : limit_of 13 ≡ 160
  pub marks : limit_of 14 ≡ 256
  pub wants : limit_of 15 ≡ 16

pub line_limits : LineLimits
unfolding limits limit_of
line_limits = record { geoms = refl; sections = refl; lanes = refl; extents = refl; heights = refl; profiles = refl; shapes = refl; strips = refl; cubics = refl; marks = refl; wants = refl }
