-- Four marks, written one after the other.
use Rattle.std.proofs.Common.{◌≡◌, ℕ, zero, suc, ◌+◌, ◌<◌, ◌≤◌, Bool, false, List, length, get_or, set, nat_eq, arith, refl}
use Rattle.lane_bounds.specs.declared.marked.TheConstants.{MARKS}
use Rattle.std.specs.Int.{bit_at}
use Rattle.std.proofs.lemmas.Grind.{common_steps}

pub get_or-four_marks : (out : List Bool) (at j : ℕ) (four : List Bool) → at + 4 ≤ length out → j < 4
    → get_or (set (set (set (set out at (get_or four 0 false)) (at + 1) (get_or four 1 false)) (at + 2) (get_or four 2 false)) (at + 3) (get_or four 3 false)) (at + j) false ≡ get_or four j false
get_or-four_marks out at zero four room within = grind (arith, common_steps)
get_or-four_marks out at (suc zero) four room within = grind (arith, common_steps)
get_or-four_marks out at (suc (suc zero)) four room within = grind (arith, common_steps)
get_or-four_marks out at (suc (suc (suc zero))) four room within = grind (arith, common_steps)
get_or-four_marks out at (suc (suc (suc (suc j)))) four room within = absurd (omega arith)

-- the marks of each number below 16
pub marks_of : (m j : ℕ) (d : List Bool) → m < 16 → j < 4 → get_or (get_or MARKS m d) j false ≡ nat_eq (bit_at m j) 1
marks_of zero zero d p q = refl
marks_of zero (suc zero) d p q = refl
marks_of zero (suc (suc zero)) d p q = refl
marks_of zero (suc (suc (suc zero))) d p q = refl
marks_of zero (suc (suc (suc (suc j)))) d p q = absurd (omega arith)
marks_of (suc zero) zero d p q = refl
marks_of (suc zero) (suc zero) d p q = refl
marks_of (suc zero) (suc (suc zero)) d p q = refl
marks_of (suc zero) (suc (suc (suc zero))) d p q = refl
marks_of (suc zero) (suc (suc (suc (suc j)))) d p q = absurd (omega arith)
marks_of (suc (suc zero)) zero d p q = refl
marks_of (suc (suc zero)) (suc zero) d p q = refl
marks_of (suc (suc zero)) (suc (suc zero)) d p q = refl
marks_of (suc (suc zero)) (suc (suc (suc zero))) d p q = refl
marks_of (suc (suc zero)) (suc (suc (suc (suc j)))) d p q = absurd (omega arith)
marks_of (suc (suc (suc zero))) zero d p q = refl
marks_of (suc (suc (suc zero))) (suc zero) d p q = refl
marks_of (suc (suc (suc zero))) (suc (suc zero)) d p q = refl
marks_of (suc (suc (suc zero))) (suc (suc (suc zero))) d p q = refl
marks_of (suc (suc (suc zero))) (suc (suc (suc (suc j)))) d p q = absurd (omega arith)
marks_of (suc (suc (suc (suc zero)))) zero d p q = refl
marks_of (suc (suc (suc (suc zero)))) (suc zero) d p q = refl
marks_of (suc (suc (suc (suc zero)))) (suc (suc zero)) d p q = refl
marks_of (suc (suc (suc (suc zero)))) (suc (suc (suc zero))) d p q = refl
marks_of (suc (suc (suc (suc zero)))) (suc (suc (suc (suc j)))) d p q = absurd (omega arith)
marks_of (suc (suc (suc (suc (suc zero))))) zero d p q = refl
marks_of (suc (suc (suc (suc (suc zero))))) (suc zero) d p q = refl
marks_of (suc (suc (suc (suc (suc zero))))) (suc (suc zero)) d p q = refl
marks_of (suc (suc (suc (suc (suc zero))))) (suc (suc (suc zero))) d p q = refl
marks_of (suc (suc (suc (suc (suc zero))))) (suc (suc (suc (suc j)))) d p q = absurd (omega arith)
marks_of (suc (suc (suc (suc (suc (suc zero)))))) zero d p q = refl
marks_of (suc (suc (suc (suc (suc (suc zero)))))) (suc zero) d p q = refl
marks_of (suc (suc (suc (suc (suc (suc zero)))))) (suc (suc zero)) d p q = refl
marks_of (suc (suc (suc (suc (suc (suc zero)))))) (suc (suc (suc zero))) d p q = refl
marks_of (suc (suc (suc (suc (suc (suc zero)))))) (suc (suc (suc (suc j)))) d p q = absurd (omega arith)
marks_of (suc (suc (suc (suc (suc (suc (suc zero))))))) zero d p q = refl
marks_of (suc (suc (suc (suc (suc (suc (suc zero))))))) (suc zero) d p q = refl
marks_of (suc (suc (suc (suc (suc (suc (suc zero))))))) (suc (suc zero)) d p q = refl
marks_of (suc (suc (suc (suc (suc (suc (suc zero))))))) (suc (suc (suc zero))) d p q = refl
marks_of (suc (suc (suc (suc (suc (suc (suc zero))))))) (suc (suc (suc (suc j)))) d p q = absurd (omega arith)
marks_of (suc (suc (suc (suc (suc (suc (suc (suc zero)))))))) zero d p q = refl
marks_of (suc (suc (suc (suc (suc (suc (suc (suc zero)))))))) (suc zero) d p q = refl
marks_of (suc (suc (suc (suc (suc (suc (suc (suc zero)))))))) (suc (suc zero)) d p q = refl
marks_of (suc (suc (suc (suc (suc (suc (suc (suc zero)))))))) (suc (suc (suc zero))) d p q = refl
marks_of (suc (suc (suc (suc (suc (suc (suc (suc zero)))))))) (suc (suc (suc (suc j)))) d p q = absurd (omega arith)
marks_of (suc (suc (suc (suc (suc (suc (suc (suc (suc zero))))))))) zero d p q = refl
marks_of (suc (suc (suc (suc (suc (suc (suc (suc (suc zero))))))))) (suc zero) d p q = refl
marks_of (suc (suc (suc (suc (suc (suc (suc (suc (suc zero))))))))) (suc (suc zero)) d p q = refl
marks_of (suc (suc (suc (suc (suc (suc (suc (suc (suc zero))))))))) (suc (suc (suc zero))) d p q = refl
marks_of (suc (suc (suc (suc (suc (suc (suc (suc (suc zero))))))))) (suc (suc (suc (suc j)))) d p q = absurd (omega arith)
marks_of (suc (suc (suc (suc (suc (suc (suc (suc (suc (suc zero)))))))))) zero d p q = refl
marks_of (suc (suc (suc (suc (suc (suc (suc (suc (suc (suc zero)))))))))) (suc zero) d p q = refl
marks_of (suc (suc (suc (suc (suc (suc (suc (suc (suc (suc zero)))))))))) (suc (suc zero)) d p q = refl
marks_of (suc (suc (suc (suc (suc (suc (suc (suc (suc (suc zero)))))))))) (suc (suc (suc zero))) d p q = refl
marks_of (suc (suc (suc (suc (suc (suc (suc (suc (suc (suc zero)))))))))) (suc (suc (suc (suc j)))) d p q = absurd (omega arith)
marks_of (suc (suc (suc (suc (suc (suc (suc (suc (suc (suc (suc zero))))))))))) zero d p q = refl
marks_of (suc (suc (suc (suc (suc (suc (suc (suc (suc (suc (suc zero))))))))))) (suc zero) d p q = refl
marks_of (suc (suc (suc (suc (suc (suc (suc (suc (suc (suc (suc zero))))))))))) (suc (suc zero)) d p q = refl
marks_of (suc (suc (suc (suc (suc (suc (suc (suc (suc (suc (suc zero))))))))))) (suc (suc (suc zero))) d p q = refl
marks_of (suc (suc (suc (suc (suc (suc (suc (suc (suc (suc (suc zero))))))))))) (suc (suc (suc (suc j)))) d p q = absurd (omega arith)
marks_of (suc (suc (suc (suc (suc (suc (suc (suc (suc (suc (suc (suc zero)))))))))))) zero d p q = refl
marks_of (suc (suc (suc (suc (suc (suc (suc (suc (suc (suc (suc (suc zero)))))))))))) (suc zero) d p q = refl
marks_of (suc (suc (suc (suc (suc (suc (suc (suc (suc (suc (suc (suc zero)))))))))))) (suc (suc zero)) d p q = refl
marks_of (suc (suc (suc (suc (suc (suc (suc (suc (suc (suc (suc (suc zero)))))))))))) (suc (suc (suc zero))) d p q = refl
marks_of (suc (suc (suc (suc (suc (suc (suc (suc (suc (suc (suc (suc zero)))))))))))) (suc (suc (suc (suc j)))) d p q = absurd (omega arith)
marks_of (suc (suc (suc (suc (suc (suc (suc (suc (suc (suc (suc (suc (suc zero))))))))))))) zero d p q = refl
marks_of (suc (suc (suc (suc (suc (suc (suc (suc (suc (suc (suc (suc (suc zero))))))))))))) (suc zero) d p q = refl
marks_of (suc (suc (suc (suc (suc (suc (suc (suc (suc (suc (suc (suc (suc zero))))))))))))) (suc (suc zero)) d p q = refl
marks_of (suc (suc (suc (suc (suc (suc (suc (suc (suc (suc (suc (suc (suc zero))))))))))))) (suc (suc (suc zero))) d p q = refl
marks_of (suc (suc (suc (suc (suc (suc (suc (suc (suc (suc (suc (suc (suc zero))))))))))))) (suc (suc (suc (suc j)))) d p q = absurd (omega arith)
marks_of (suc (suc (suc (suc (suc (suc (suc (suc (suc (suc (suc (suc (suc (suc zero)))))))))))))) zero d p q = refl
marks_of (suc (suc (suc (suc (suc (suc (suc (suc (suc (suc (suc (suc (suc (suc zero)))))))))))))) (suc zero) d p q = refl
marks_of (suc (suc (suc (suc (suc (suc (suc (suc (suc (suc (suc (suc (suc (suc zero)))))))))))))) (suc (suc zero)) d p q = refl
marks_of (suc (suc (suc (suc (suc (suc (suc (suc (suc (suc (suc (suc (suc (suc zero)))))))))))))) (suc (suc (suc zero))) d p q = refl
marks_of (suc (suc (suc (suc (suc (suc (suc (suc (suc (suc (suc (suc (suc (suc zero)))))))))))))) (suc (suc (suc (suc j)))) d p q = absurd (omega arith)
marks_of (suc (suc (suc (suc (suc (suc (suc (suc (suc (suc (suc (suc (suc (suc (suc zero))))))))))))))) zero d p q = refl
marks_of (suc (suc (suc (suc (suc (suc (suc (suc (suc (suc (suc (suc (suc (suc (suc zero))))))))))))))) (suc zero) d p q = refl
marks_of (suc (suc (suc (suc (suc (suc (suc (suc (suc (suc (suc (suc (suc (suc (suc zero))))))))))))))) (suc (suc zero)) d p q = refl
marks_of (suc (suc (suc (suc (suc (suc (suc (suc (suc (suc (suc (suc (suc (suc (suc zero))))))))))))))) (suc (suc (suc zero))) d p q = refl
marks_of (suc (suc (suc (suc (suc (suc (suc (suc (suc (suc (suc (suc (suc (suc (suc zero))))))))))))))) (suc (suc (suc (suc j)))) d p q = absurd (omega arith)
marks_of (suc (suc (suc (suc (suc (suc (suc (suc (suc (suc (suc (suc (suc (suc (suc (suc m)))))))))))))))) j d p q = absurd (omega arith)
