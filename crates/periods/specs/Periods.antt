-- The period list: the periods that a task may have.
use Rattle.std.specs.Prelude.{◌≡◌, ℕ, suc, ◌-◌, ◌%◌, ◌<◌, ◌≤◌, Bool, cond, ◌||◌, List, [], ◌∷◌, Some, None, Option, ◌==◌, nat_lt, slice_index}

-- the cycle: every period divides it
abbrev pub cycle : ℕ
cycle = 720720

-- the list of 240 periods
unfoldable pub periods : List ℕ
periods =
    1 ∷ 2 ∷ 3 ∷ 4 ∷ 5 ∷ 6 ∷ 7 ∷ 8 ∷ 9 ∷ 10 ∷ 11 ∷ 12 ∷
    13 ∷ 14 ∷ 15 ∷ 16 ∷ 18 ∷ 20 ∷ 21 ∷ 22 ∷ 24 ∷ 26 ∷ 28 ∷ 30 ∷
    33 ∷ 35 ∷ 36 ∷ 39 ∷ 40 ∷ 42 ∷ 44 ∷ 45 ∷ 48 ∷ 52 ∷ 55 ∷ 56 ∷
    60 ∷ 63 ∷ 65 ∷ 66 ∷ 70 ∷ 72 ∷ 77 ∷ 78 ∷ 80 ∷ 84 ∷ 88 ∷ 90 ∷
    91 ∷ 99 ∷ 104 ∷ 105 ∷ 110 ∷ 112 ∷ 117 ∷ 120 ∷ 126 ∷ 130 ∷ 132 ∷ 140 ∷
    143 ∷ 144 ∷ 154 ∷ 156 ∷ 165 ∷ 168 ∷ 176 ∷ 180 ∷ 182 ∷ 195 ∷ 198 ∷ 208 ∷
    210 ∷ 220 ∷ 231 ∷ 234 ∷ 240 ∷ 252 ∷ 260 ∷ 264 ∷ 273 ∷ 280 ∷ 286 ∷ 308 ∷
    312 ∷ 315 ∷ 330 ∷ 336 ∷ 360 ∷ 364 ∷ 385 ∷ 390 ∷ 396 ∷ 420 ∷ 429 ∷ 440 ∷
    455 ∷ 462 ∷ 468 ∷ 495 ∷ 504 ∷ 520 ∷ 528 ∷ 546 ∷ 560 ∷ 572 ∷ 585 ∷ 616 ∷
    624 ∷ 630 ∷ 660 ∷ 693 ∷ 715 ∷ 720 ∷ 728 ∷ 770 ∷ 780 ∷ 792 ∷ 819 ∷ 840 ∷
    858 ∷ 880 ∷ 910 ∷ 924 ∷ 936 ∷ 990 ∷ 1001 ∷ 1008 ∷ 1040 ∷ 1092 ∷ 1144 ∷ 1155 ∷
    1170 ∷ 1232 ∷ 1260 ∷ 1287 ∷ 1320 ∷ 1365 ∷ 1386 ∷ 1430 ∷ 1456 ∷ 1540 ∷ 1560 ∷ 1584 ∷
    1638 ∷ 1680 ∷ 1716 ∷ 1820 ∷ 1848 ∷ 1872 ∷ 1980 ∷ 2002 ∷ 2145 ∷ 2184 ∷ 2288 ∷ 2310 ∷
    2340 ∷ 2520 ∷ 2574 ∷ 2640 ∷ 2730 ∷ 2772 ∷ 2860 ∷ 3003 ∷ 3080 ∷ 3120 ∷ 3276 ∷ 3432 ∷
    3465 ∷ 3640 ∷ 3696 ∷ 3960 ∷ 4004 ∷ 4095 ∷ 4290 ∷ 4368 ∷ 4620 ∷ 4680 ∷ 5005 ∷ 5040 ∷
    5148 ∷ 5460 ∷ 5544 ∷ 5720 ∷ 6006 ∷ 6160 ∷ 6435 ∷ 6552 ∷ 6864 ∷ 6930 ∷ 7280 ∷ 7920 ∷
    8008 ∷ 8190 ∷ 8580 ∷ 9009 ∷ 9240 ∷ 9360 ∷ 10010 ∷ 10296 ∷ 10920 ∷ 11088 ∷ 11440 ∷ 12012 ∷
    12870 ∷ 13104 ∷ 13860 ∷ 15015 ∷ 16016 ∷ 16380 ∷ 17160 ∷ 18018 ∷ 18480 ∷ 20020 ∷ 20592 ∷ 21840 ∷
    24024 ∷ 25740 ∷ 27720 ∷ 30030 ∷ 32760 ∷ 34320 ∷ 36036 ∷ 40040 ∷ 45045 ∷ 48048 ∷ 51480 ∷ 55440 ∷
    60060 ∷ 65520 ∷ 72072 ∷ 80080 ∷ 90090 ∷ 102960 ∷ 120120 ∷ 144144 ∷ 180180 ∷ 240240 ∷ 360360 ∷ 720720 ∷
    []

-- there is no entry of that code
abbrev pub no_entry : ℕ → Bool
no_entry code = code == 0 || nat_lt 240 code

-- the period that a code from 1 to 240 names
abbrev pub period_of : ℕ → ℕ
period_of code = slice_index periods (code - 1)

-- the period that a code names, if it names one
abbrev pub named : ℕ → Option ℕ
named code = cond (no_entry code) None (Some (period_of code))

-- each entry is above 0 and divides the cycle
abbrev pub Divides : Type 0
Divides = (code : ℕ) → 1 ≤ code → code ≤ 240 → (0 < period_of code) × (cycle % period_of code ≡ 0)

-- each entry is above the one before it
abbrev pub Rising : Type 0
Rising = (code : ℕ) → 1 ≤ code → code < 240 → period_of code < period_of (suc code)

-- each divisor of the cycle is an entry
abbrev pub Complete : Type 0
Complete = (d : ℕ) → 0 < d → cycle % d ≡ 0 → (code : ℕ) × ((1 ≤ code) × (code ≤ 240) × (period_of code ≡ d))

-- each code from 1 to 240 names its entry
abbrev pub AllNamed : Type 0
AllNamed = (code : ℕ) → 1 ≤ code → code ≤ 240 → named code ≡ Some (period_of code)

-- the first entry, the seventeenth and the last
pub record Places : Type 0 where
  pub first : period_of 1 ≡ 1
  pub seventeenth : period_of 17 ≡ 18
  pub last : period_of 240 ≡ 720720

-- the first and the last code name an entry, and those beside them none
pub record NamedPlaces : Type 0 where
  pub named_first : named 1 ≡ Some 1
  pub named_last : named 240 ≡ Some 720720
  pub none_before : named 0 ≡ None
  pub none_after : named 241 ≡ None
