-- Examples of the definitions: steps that were recorded on Debian 12's kernel 6.1, unmodified. Each theorem computes.
use Rattle.std.proofs.Common.{◌≡◌, ℕ, ◌-◌, ◌^◌, refl}
use Rattle.std.specs.Prelude.{◌+◌, ◌*◌, ◌/◌, Bool, true, false}
use Rattle.pie_linux.specs.declared.params.LinuxParams.{LinuxParams}
use Rattle.pie_linux.specs.declared.params.MarkLimit.{MarkLimit}
use Rattle.pie_linux.specs.declared.params.MarkLimit.TheVariants.{Tenth, Percent}
use Rattle.pie_linux.specs.declared.state.LinuxState.{LinuxState}
use Rattle.pie_linux.specs.declared.arrival.LinuxArrival.{LinuxArrival}
use Rattle.pie_linux.specs.declared.departure.LinuxDeparture.{LinuxDeparture}
use Rattle.pie_linux.specs.Enqueue.{accu_after, early_cause, enqueue_cause, enqueued, is_markable, marked_up_to}
use Rattle.pie_linux.specs.Numbers.{difference_64, full_burst, long_delay, one, scaled, ticks}
use Rattle.pie_linux.specs.Queue.{flow_backlog, flow_of, is_over_memory, next_cursor, round_of}
use Rattle.pie_linux.specs.declared.cause.LinuxCause.TheVariants.{SumAbove, WordBelow}
use Rattle.pie_linux.specs.declared.cause.Picked.TheVariants.{HighProbability, Marked}
use Rattle.pie_linux.specs.Departure.{average, departed, elapsed}
use Rattle.pie_linux.specs.Update.{capped, decays, divisor_at, gain_of, next_prob, overflows, raised, raw_step, step_of, stepped, updated}

abbrev params : ℕ → ℕ → ℕ → ℕ → Bool → Bool → Bool → MarkLimit → LinuxParams
params target limit alpha beta ecn bytemode estimator marks = record {
  target = target;
  tupdate = 4;
  limit = limit;
  alpha = alpha;
  beta = beta;
  ecn = ecn;
  bytemode = bytemode;
  dq_rate_estimator = estimator;
  marks = marks;
}

abbrev state : ℕ → ℕ → ℕ → ℕ → ℕ → ℕ → ℕ → ℕ → ℕ → LinuxState
state qdelay qdelay_old burst_time dq_tstamp prob accu_prob dq_count avg_dq_rate backlog_old = record {
  qdelay = qdelay;
  qdelay_old = qdelay_old;
  burst_time = burst_time;
  dq_tstamp = dq_tstamp;
  prob = prob;
  accu_prob = accu_prob;
  dq_count = dq_count;
  avg_dq_rate = avg_dq_rate;
  backlog_old = backlog_old;
}

abbrev arrival : ℕ → ℕ → ℕ → ℕ → Bool → ℕ → LinuxArrival
arrival length backlog size mtu markable word =
    record { length = length; backlog = backlog; size = size; mtu = mtu; markable = markable; word = word }

abbrev departure : ℕ → ℕ → ℕ → ℕ → ℕ → ℕ → LinuxDeparture
departure backlog size enqueued first second third =
    record { backlog = backlog; size = size; enqueued = enqueued; first = first; second = second; third = third }

-- updates: the divisor below a millionth, a 10,000th, a thousandth, a hundredth and a tenth, and above a tenth; the decay; cap and long delay;
-- the divisor below a 100,000th, with a restart; a small backlog; two long delays of fq_pie, at a probability below 1 and above it
updates : (updated (params 234375 1000 2 20 false false false Tenth) (state 1543123 0 0 68299825 0 0 (2 ^ 64 - 1) 0 0) 261298
    ≡ state 1543123 1543123 0 68299825 4711882455679 0 (2 ^ 64 - 1) 0 261298)
    × (updated (params 234375 1000 2 20 false false false Tenth) (state 1561907 1543123 0 68611337 4711882455679 94237649113580 (2 ^ 64 - 1) 0 261298) 264326
    ≡ state 1561907 1561907 0 68611337 11536510392211 94237649113580 (2 ^ 64 - 1) 0 264326)
    × (updated (params 234375 1000 2 20 false false false Tenth) (state 1571376 1561907 0 68932313 11536510392211 324967856957800 (2 ^ 64 - 1) 0 264326) 267354
    ≡ state 1571376 1571376 0 68932313 37327561926574 324967856957800 (2 ^ 64 - 1) 0 267354)
    × (updated (params 234375 1000 2 20 false false false Tenth) (state 1617833 1608402 0 69866850 93163332827888 4328414600979568 (2 ^ 64 - 1) 0 270358) 270358
    ≡ state 1617833 1617833 0 69866850 199647739398080 4328414600979568 (2 ^ 64 - 1) 0 270358)
    × (updated (params 234375 1000 2 20 false false false Tenth) (state 1712347 1693421 0 71736075 770699920450034 64114690749252164 (2 ^ 64 - 1) 0 282422) 285450
    ≡ state 1712347 1712347 0 71736075 1251246826708192 64114690749252164 (2 ^ 64 - 1) 0 285450)
    × (updated (params 234375 1000 2 20 false false false Tenth) (state 1882251 1882487 0 76116475 7608596656357820 68477369907220380 (2 ^ 64 - 1) 0 302080) 305108
    ≡ state 1882251 1882251 0 76116475 8557172047145380 68477369907220380 (2 ^ 64 - 1) 0 305108)
    × (updated (params 234375 300 2 20 true false false Tenth) (state 0 0 0 483326202 7028184942490798 0 (2 ^ 64 - 1) 0 0) 0
    ≡ state 0 0 0 483326202 6851871089551489 0 (2 ^ 64 - 1) 0 0)
    × (updated (params 234375 300 2 20 true false false Tenth) (state 1359606 1221482 0 489370221 12515062556647403 12515062556647403 (2 ^ 64 - 1) 0 239200) 240000
    ≡ state 1359606 1359606 0 489370221 13956214437405961 12515062556647403 (2 ^ 64 - 1) 0 240000)
    × (updated (params 234375 500 4 30 true true false Tenth) (state 0 0 0 580812996 319379716730 0 (2 ^ 64 - 1) 0 0) 0
    ≡ state 0 0 2343750 (2 ^ 64 - 1) 0 0 (2 ^ 64 - 1) 0 0)
    × (updated (params 234375 500 4 30 true true false Tenth) (state 0 17855 0 608804280 17322062265239390 50530106368340326 (2 ^ 64 - 1) 0 1600) 1914
    ≡ state 0 0 0 608804280 16897455686781425 50530106368340326 (2 ^ 64 - 1) 0 1914)
    × (updated (params 234375 400 2 20 true false false (Percent 10)) (state 3990202 3903316 0 233677335 3692252009567533 3692252009567533 (2 ^ 64 - 1) 0 148704) 145376
    ≡ state 3990202 3990202 0 233677335 6466379163305289 3692252009567533 (2 ^ 64 - 1) 0 145376)
    × (updated (params 234375 400 2 20 true false false (Percent 10)) (state 5456141 5444090 0 240841759 69883803624533156 0 (2 ^ 64 - 1) 0 97884) 91584
    ≡ state 5456141 5456141 0 240841759 72766107386050272 0 (2 ^ 64 - 1) 0 91584)
unfolding updated next_prob step_of raw_step divisor_at
updates = (refl, refl, refl, refl, refl, refl, refl, refl, refl, refl, refl, refl)

-- departures: the first, one that empties the queue, burst allowance, none left; with the rate estimator: no measurement, its beginning, a
-- packet of it, its end
departures : (departed (params 234375 1000 2 20 false false false Tenth) (state 0 0 2343750 (2 ^ 64 - 1) 0 0 (2 ^ 64 - 1) 0 0) (departure 0 42 60799984 60800051 0 0)
    ≡ state 0 0 2343750 60800051 0 0 (2 ^ 64 - 1) 0 0)
    × (departed (params 234375 1000 2 20 false false false Tenth) (state 0 0 2343750 60800051 0 0 (2 ^ 64 - 1) 0 0) (departure 0 74 60956509 60956573 0 0)
    ≡ state 0 0 2187228 60956573 0 0 (2 ^ 64 - 1) 0 0)
    × (departed (params 234375 1000 2 20 false false false Tenth) (state 0 0 520609 62623192 0 0 (2 ^ 64 - 1) 0 0) (departure 28742 2962 62623568 62632135 0 0)
    ≡ state 8567 0 511666 62632135 0 0 (2 ^ 64 - 1) 0 0)
    × (departed (params 234375 1000 2 20 false false false Tenth) (state 315709 0 0 63161437 0 0 (2 ^ 64 - 1) 0 0) (departure 102808 4410 62845849 63189825 0 0)
    ≡ state 343976 0 0 63189825 0 0 (2 ^ 64 - 1) 0 0)
    × (departed (params 234375 1000 2 20 true false true Tenth) (state 0 0 2343750 (2 ^ 64 - 1) 0 0 (2 ^ 64 - 1) 0 0) (departure 0 42 0 62406099 0 0)
    ≡ state 0 0 2343750 (2 ^ 64 - 1) 0 0 (2 ^ 64 - 1) 0 0)
    × (departed (params 234375 1000 2 20 true false true Tenth) (state 0 0 2343750 (2 ^ 64 - 1) 0 0 (2 ^ 64 - 1) 0 0) (departure 39364 2962 0 63951596 63951603 0)
    ≡ state 0 0 2343750 63951603 0 0 2962 0 0)
    × (departed (params 234375 1000 2 20 true false true Tenth) (state 0 0 2343750 63951603 0 0 2962 0 0) (departure 36336 2962 0 63970528 0 0)
    ≡ state 0 0 2343750 63951603 0 0 5924 0 0)
    × (departed (params 234375 1000 2 20 true false true Tenth) (state 0 0 2343750 63951603 0 0 14810 0 0) (departure 24224 2962 0 64046228 64046235 0)
    ≡ state 0 0 2249125 64046235 0 0 0 48 0)
unfolding departed
departures = (refl, refl, refl, refl, refl, refl, refl, refl)

-- arrivals: burst allowance; sum below 0.85; word not below; picked, ecn off; low delay; picked, not markable; picked, marked; picked at a
-- probability above the limit for marks; over the limit; short queue; with bytemode: sum below 0.85, word not below, picked
arrivals : (enqueued (params 234375 1000 2 20 false false false Tenth) (state 0 0 2343750 (2 ^ 64 - 1) 0 0 (2 ^ 64 - 1) 0 0) (arrival 0 0 42 1514 (is_markable 0x0806 0x0001 true) 0)
    ≡ state 0 0 2343750 (2 ^ 64 - 1) 0 0 (2 ^ 64 - 1) 0 0)
    × (enqueued (params 234375 1000 2 20 false false false Tenth) (state 315709 0 0 63161437 0 0 (2 ^ 64 - 1) 0 0) (arrival 37 102832 1490 1514 (is_markable 0x0800 0x4500 true) 0)
    ≡ state 315709 0 0 63161437 0 0 (2 ^ 64 - 1) 0 0)
    × (enqueued (params 234375 1000 2 20 false false false Tenth) (state 1710333 1693421 0 71679450 770699920450034 61031891067452028 (2 ^ 64 - 1) 0 282422) (arrival 114 285450 2962 1514 (is_markable 0x0800 0x4500 true) 13977271019429242545)
    ≡ state 1710333 1693421 0 71679450 770699920450034 61802590987902062 (2 ^ 64 - 1) 0 282422)
    × (enqueued (params 234375 1000 2 20 false false false Tenth) (state 1745761 1721777 0 72151525 1707141388897574 96879981963385064 (2 ^ 64 - 1) 0 280908) (arrival 112 283960 1490 1514 (is_markable 0x0800 0x4500 true) 412485875105615544)
    ≡ state 1745761 1721777 0 72151525 1707141388897574 0 (2 ^ 64 - 1) 0 280908)
    × (enqueued (params 234375 1000 2 20 false false false Tenth) (state 116613 201664 0 85999046 13937629000955166 83625774005730996 (2 ^ 64 - 1) 0 24152) (arrival 9 18120 1514 1514 (is_markable 0x0800 0x4500 true) 0)
    ≡ state 116613 201664 0 85999046 13937629000955166 83625774005730996 (2 ^ 64 - 1) 0 24152)
    × (enqueued (params 234375 300 2 20 true false false Tenth) (state 1259046 1277717 0 461015730 516025572106415 63865719801312537 (2 ^ 64 - 1) 0 212576) (arrival 166 211876 700 1514 (is_markable 0x0800 0x4500 true) 65084377044639148)
    ≡ state 1259046 1277717 0 461015730 516025572106415 0 (2 ^ 64 - 1) 0 212576)
    × (enqueued (params 234375 300 2 20 true false false Tenth) (state 1401027 1402547 0 464109217 3319067852296025 59175556760511671 (2 ^ 64 - 1) 0 234016) (arrival 183 233902 2962 1514 (is_markable 0x0800 0x4502 true) 140994173141578523)
    ≡ state 1401027 1402547 0 464109217 3319067852296025 0 (2 ^ 64 - 1) 0 234016)
    × (enqueued (params 234375 300 2 20 true false false Tenth) (state 1535888 1540640 0 467191004 7307386216813502 83492504730210464 (2 ^ 64 - 1) 0 234032) (arrival 198 232404 700 1514 (is_markable 0x0800 0x4500 true) 1430465884011629073)
    ≡ state 1535888 1540640 0 467191004 7307386216813502 0 (2 ^ 64 - 1) 0 234032)
    × (enqueued (params 234375 300 2 20 true false false Tenth) (state 799751 771063 0 488180221 8471137346077381 25413412038232143 (2 ^ 64 - 1) 0 232800) (arrival 300 0 800 1514 (is_markable 0x0800 0x4502 true) 0)
    ≡ state 799751 771063 0 488180221 8471137346077381 0 (2 ^ 64 - 1) 0 232800)
    × (enqueued (params 234375 300 2 20 true false false Tenth) (state 68630 445739 0 529670223 61407279171506857 0 (2 ^ 64 - 1) 0 32800) (arrival 3 2400 800 1514 (is_markable 0x0800 0x4502 true) 0)
    ≡ state 68630 445739 0 529670223 61407279171506857 0 (2 ^ 64 - 1) 0 32800)
    × (enqueued (params 234375 500 4 30 true true false Tenth) (state 784880 760182 0 597675670 620741417307412 0 (2 ^ 64 - 1) 0 144698) (arrival 180 149326 400 1514 (is_markable 0x0800 0x4502 true) 0)
    ≡ state 784880 760182 0 597675670 620741417307412 164000374453600 (2 ^ 64 - 1) 0 144698)
    × (enqueued (params 234375 500 4 30 true true false Tenth) (state 879191 844727 0 598302230 1676476466438478 60997240272685384 (2 ^ 64 - 1) 0 157954) (arrival 199 159554 400 1514 (is_markable 0x0800 0x4502 true) 13664488342366354851)
    ≡ state 879191 844727 0 598302230 1676476466438478 61440166683897384 (2 ^ 64 - 1) 0 157954)
    × (enqueued (params 234375 500 4 30 true true false Tenth) (state 1107792 1108291 0 600600533 9766030327615946 220241948796621956 (2 ^ 64 - 1) 0 172612) (arrival 247 170784 400 1514 (is_markable 0x0800 0x4502 true) 31319750613974230)
    ≡ state 1107792 1108291 0 600600533 9766030327615946 0 (2 ^ 64 - 1) 0 172612)
unfolding enqueue_cause early_cause
arrivals = (refl, refl, refl, refl, refl, refl, refl, refl, refl, refl, refl, refl, refl)

-- rules that the recorded traffic did not reach, by C's arithmetic

-- times of 32 bits, bytes of 24 bits, differences below 0, a gain whose product exceeds 64 bits, and a clock
wraps : (elapsed 1 (2 ^ 32 + 6) ≡ 5) × (elapsed 6 1 ≡ 2 ^ 32 - 5) × (scaled (2 ^ 24 + 3) ≡ 768) × (difference_64 1 2 ≡ 2 ^ 64 - 1)
    × (gain_of (2 ^ 32 - 1) ≡ 85_018_534_275_576_855) × (gain_of 20 ≡ 5_764_607_522) × (ticks 640 ≡ 10)
wraps = (refl, refl, refl, refl, refl, refl, refl)

constants : (full_burst ≡ 2_343_750) × (long_delay ≡ 3_906_250) × (marked_up_to (Percent 10) ≡ 10 * (one / 100))
constants = (refl, refl, refl)

-- the probability exceeds 1 up to 64 bits; beyond, it becomes 1 and does not decay. A fall stops at 0
bounds : (stepped (2 ^ 64 - 2) 1 ≡ 2 ^ 64 - 1) × (stepped (2 ^ 64 - 1) 1 ≡ one) × (stepped 5 (2 ^ 64 - 6) ≡ 0) × (stepped 5 (2 ^ 64 - 5) ≡ 0)
    × (overflows (2 ^ 64 - 1) 1 ≡ true) × (decays 0 0 0 true ≡ false) × (decays 0 0 1 false ≡ false) × (decays 0 0 0 false ≡ true)
bounds = (refl, refl, refl, refl, refl, refl, refl, refl)

-- the cap begins at 0.1 with steps above 0.02, and 250 ms are not long
limits : (capped (one / 10) (one / 50 + 1) ≡ one / 100 * 2) × (capped (one / 10) (one / 50) ≡ one / 50) × (capped (one / 10 - 1) (one / 50 + 1) ≡ one / 50 + 1)
    × (raised 3_906_250 1 ≡ 1) × (raised 3_906_251 1 ≡ one / 50 + 1)
limits = (refl, refl, refl, refl, refl)

-- a mark by the sum keeps the accumulated probability; a drop and a pick by the word set it to 0
accumulated_after : (accu_after (SumAbove Marked) 1 9 ≡ 9) × (accu_after (SumAbove HighProbability) 1 9 ≡ 0) × (accu_after (WordBelow Marked) 1 9 ≡ 0)
accumulated_after = (refl, refl, refl)

-- ECN fields: Not-ECT, ECT(0) and CE of IPv4, ECT(0) of IPv6, ARP, and a packet without its header
fields : (is_markable 0x0800 0x4500 true ≡ false) × (is_markable 0x0800 0x4502 true ≡ true) × (is_markable 0x0800 0x4503 true ≡ true)
    × (is_markable 0x86dd 0x6020 true ≡ true) × (is_markable 0x0806 0x0001 true ≡ false) × (is_markable 0x0800 0x4502 false ≡ false)
fields = (refl, refl, refl, refl, refl, refl)

-- flows, rounds and memory of fq_pie
flows : (flow_of 961_130_489 64 ≡ 14) × (flow_backlog false 3000 100 ≡ 100) × (flow_backlog true 3000 100 ≡ 3100)
    × (round_of 5000 4096 ≡ 904) × (next_cursor 5000 2048 ≡ 4096) × (next_cursor 5000 4096 ≡ 0) × (is_over_memory 1001 900 100 ≡ true) × (is_over_memory 1000 900 100 ≡ false)
flows = (refl, refl, refl, refl, refl, refl, refl, refl)

averages : (average 0 80 ≡ 80) × (average 15 80 ≡ 24)
averages = (refl, refl)
