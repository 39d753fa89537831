-- How a picture is drawn.
use Rattle.std.specs.Prelude.{ℕ, Bool}

-- in so many columns at most, with levels in hexadecimal or not, and in ASCII characters alone or not
pub record PictureForm : Type 0 where
  pub columns : ℕ
  pub is_hex : Bool
  pub is_ascii : Bool
